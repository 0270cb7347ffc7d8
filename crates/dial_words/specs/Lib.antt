pub mod DialWords
