pub mod Premise
pub mod Replies
pub mod Lists
pub mod Scripts
