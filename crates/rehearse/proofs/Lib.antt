mod Answered
mod Session
