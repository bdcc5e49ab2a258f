pub mod Partition
pub mod Rows
pub mod PartitionLaws
