-- The table of the lines of an end's text: each keyword, and what the words after it stand for.
use Rattle.std.specs.Prelude.{List, [], ◌∷◌, codes}
use Rattle.text_tables.specs.Rows.{Row, row}
use Rattle.text_tables.specs.declared.rows.Field.TheVariants.{Hex}
use Rattle.scenario_text.specs.Keywords as scenario
use Rattle.scenario_text.specs.declared.keyword.Keyword.TheVariants as key
use Rattle.end_pipe.specs.declared.table.EndWord.{EndWord}
use Rattle.end_pipe.specs.declared.table.EndWord.TheVariants as word
use Rattle.end_pipe.specs.declared.table.Role.{Role}
use Rattle.end_pipe.specs.declared.table.Role.TheVariants.{Peer, Server}

-- a setting has its row of a scenario of the second version
abbrev pub row_of : EndWord → Row
row_of (word.Setting keyword) = scenario.row_of keyword
row_of word.Events = row (codes "events") 0 []
row_of word.Packet = row (codes "packet") 1 (Hex 0 2000 ∷ [])
row_of word.Timeout = row (codes "timeout") 0 []
row_of word.Idle = row (codes "idle") 0 []
row_of word.AltAccept = row (codes "alt-accept") 0 []
row_of word.AltReject = row (codes "alt-reject") 0 []
row_of word.End = row (codes "end") 0 []

-- the keywords of each end's text
abbrev pub end_words : Role → List EndWord
end_words Peer =
    word.Setting key.PeerName ∷ word.Setting key.PeerServer ∷ word.Setting key.PeerMethods
    ∷ word.Setting key.PeerSuites
    ∷ word.Setting key.PeerPsk ∷ word.Setting key.PeerNonce ∷ word.Setting key.PeerExpanded
    ∷ word.Events ∷ word.Packet ∷ word.Idle ∷ word.AltAccept ∷ word.AltReject ∷ word.End ∷ []
end_words Server =
    word.Setting key.FirstId ∷ word.Setting key.MaxRetrans ∷ word.Setting key.ServerName
    ∷ word.Setting key.ServerMethods
    ∷ word.Setting key.ServerSuites ∷ word.Setting key.ServerNonce ∷ word.Setting key.ServerExpanded
    ∷ word.Setting key.User
    ∷ word.Events ∷ word.Packet ∷ word.Timeout ∷ word.End ∷ []
