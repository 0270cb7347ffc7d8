pub mod OneStrip
