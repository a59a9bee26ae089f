-- Blocks of 512 bytes. Read Fields (numbers in a block), then Check (the Internet checksum).
pub mod Fields
pub mod Check
