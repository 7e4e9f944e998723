pub mod Slack
pub mod Entries
pub mod Counts
pub mod Asks
