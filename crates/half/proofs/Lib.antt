-- What the functions' proofs share, on plain values.
mod Halves
mod Bytes
mod Scaled
