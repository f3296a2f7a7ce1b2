mod Parsed
mod Rising
