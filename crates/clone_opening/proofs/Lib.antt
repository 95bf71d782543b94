pub mod RaisedLemmas
