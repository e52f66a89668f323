pub mod Cues
