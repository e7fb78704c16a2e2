pub mod Calls
pub use Rattle.np_message.specs.Message
