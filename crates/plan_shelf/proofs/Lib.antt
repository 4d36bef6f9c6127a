mod Prefixes
mod Adding
mod Rules
