mod ExportLemmas
mod InfoLemmas
mod ReplyLemmas
mod OptionLemmas
mod NegotiationLemmas
mod AnswerLemmas
mod EndLemmas
