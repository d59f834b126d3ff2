pub mod Challenge
pub mod Md5Peer
pub mod Md5Server
pub mod Logins
