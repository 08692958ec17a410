mod Answered
mod Examples
mod Taken
