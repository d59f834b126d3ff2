pub mod Captured
pub mod Classified
pub mod Tags
pub mod Gpsk
pub mod Psk
pub mod CaptureContext
pub mod Finding
