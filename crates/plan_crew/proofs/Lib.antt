mod Answering
mod Editing
mod Prefixes
mod Replying
mod Worked
mod Working
