mod Paths
mod Claiming
mod Refuting
mod Counts
mod Telling
