pub mod Gpsk
pub mod GpskMacKey
pub mod Psk
pub mod KeyName
pub mod PskLaws
pub mod SessionId
