mod ReadLines
mod Requests
mod Sides
mod Steps
mod Stopping
