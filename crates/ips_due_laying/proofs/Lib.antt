mod LaidDue
mod Searched
