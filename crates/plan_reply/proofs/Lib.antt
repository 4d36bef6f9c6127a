mod Made
mod Repeats
mod Longer
mod Polylines
mod Replies
mod Limits
mod Joined
mod Parts
