pub mod Serving
pub mod Voice
pub mod VoiceLaws
