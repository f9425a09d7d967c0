mod MarksLoop
mod Words
mod Whole
