mod Texts
mod Obstacles
mod Queries
mod Written
