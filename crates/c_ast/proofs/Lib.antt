mod Numbered
mod TreeExamples
