mod OneOfEach
mod Replays
mod Rights
mod Updates
mod Protecting
mod Tried
