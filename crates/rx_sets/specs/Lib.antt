pub mod Ascii
pub mod Capture
pub mod Clipped
pub mod Members
pub mod Perl
pub mod Property
