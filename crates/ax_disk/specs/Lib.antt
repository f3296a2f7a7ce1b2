pub mod model
pub mod laws
pub mod mem_disk
pub mod CallLimit
pub mod DeadDisk
pub mod FuseDisk
