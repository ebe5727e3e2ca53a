mod Coded
mod Inspected
mod Exactly
mod Recording
mod Dialogues
