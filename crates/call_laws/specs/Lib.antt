pub mod Amid
pub mod OneCall
