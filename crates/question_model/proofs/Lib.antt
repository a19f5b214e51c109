mod Pages
mod Orders
mod AnswerKinds
