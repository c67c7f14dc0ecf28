mod Answering
mod Firsts
mod Noting
mod Telling
mod Written
