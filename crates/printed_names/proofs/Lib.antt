mod Turns
mod Inserted
mod Meeting
mod Declared
