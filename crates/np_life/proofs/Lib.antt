mod Phases
mod Others
