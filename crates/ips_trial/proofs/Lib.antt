mod Numbers
mod Trials
