pub mod Reading
pub use Rattle.np_message.specs.Decoding
