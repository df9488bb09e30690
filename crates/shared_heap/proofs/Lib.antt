mod Starts
mod Parts
mod Joined
mod Steps
