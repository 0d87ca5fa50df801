mod ReadingLaws
mod ArenaLaws
mod StoreLaws
mod HintLaws
mod CheckerLaws
