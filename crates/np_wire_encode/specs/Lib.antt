pub mod Writing
pub use Rattle.np_message.specs.Encoding
