mod Behind
mod Same
