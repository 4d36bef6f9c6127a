pub mod Digits
mod CommandCases
pub mod Outcomes
pub mod ReadsTask
mod Firsts
mod Alike
pub mod Judged
mod OneKept
mod OneFirst
mod Exclusion
mod OneRefusal
mod OneReason
mod ReadsPoints
mod OneAnswer
mod Limits
mod OneByOne
mod Adds
mod Replies
mod RightAlike
pub mod Planned
mod OnePlan
mod KeptTexts
mod WrittenLines
mod Histories
mod SessionCases
mod Counted
mod ToldRounds
mod Watchers
mod PlayedRounds
mod Turns
mod Sessions
mod RefusedSessions
mod RoundsCounted
mod TooLargeAlone
mod OneDemo
mod Demonstrated
