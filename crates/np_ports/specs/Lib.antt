pub mod Causes
pub mod Peer
pub mod Files
pub mod Sink
pub mod Memory
pub mod Plan
pub mod Adapters
pub mod Transfer
