mod Requests
mod Sides
mod Stopping
mod Texts
