pub mod Causes
pub mod PeerCauses
pub mod Status
