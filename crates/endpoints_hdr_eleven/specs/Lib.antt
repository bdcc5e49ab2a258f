pub mod Hdr11Laws
