mod Reading
mod Begins
mod Attaching
mod Judged
mod Causes
