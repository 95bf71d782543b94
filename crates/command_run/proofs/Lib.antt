mod Ran
mod Reached
mod Reported
