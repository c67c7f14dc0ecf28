mod Applied
mod EndsOf
mod Histories
mod Leads
mod Listed
mod Numbered
mod Takes
mod Visits
