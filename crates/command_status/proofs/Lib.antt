pub mod EndLemmas
mod PushLemmas
