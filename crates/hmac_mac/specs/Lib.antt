pub mod Hmac
pub mod Represents
