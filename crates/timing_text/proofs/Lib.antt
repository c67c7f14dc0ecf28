pub mod CallerLemmas
mod GivenProperties
mod GivenStimuli
mod GivenTimings
mod Rising
mod StimuliInRange
mod StimuliNamed
mod StimulusLines
mod TextRows
mod TimingLines
mod TimingsInRange
