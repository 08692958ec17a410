mod Answered
mod Examples
mod Helping
mod Taken
