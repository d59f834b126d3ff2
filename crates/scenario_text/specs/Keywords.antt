-- The table of a scenario's lines: each keyword, and what the words after it stand for.
use Rattle.std.specs.Prelude.{List, [], ◌∷◌, ◌++◌, codes}
use Rattle.octet_lists.specs.Sizes.{max_packet}
use Rattle.text_tables.specs.Rows.{Row, row}
use Rattle.text_tables.specs.declared.rows.Field.TheVariants.{Choice, Number, Kind, KindOrNone}
use Rattle.text_tables.specs.declared.rows.Field.TheVariants.{OtherKind, Suite, OtherSuite, Name}
use Rattle.text_tables.specs.declared.rows.Field.TheVariants.{Hex, Key}
use Rattle.text_tables.specs.declared.rows.Choices.TheVariants as choices
use Rattle.scenario_text.specs.declared.keyword.Keyword.{Keyword}
use Rattle.scenario_text.specs.declared.keyword.Keyword.TheVariants as key
use Rattle.scenario_text.specs.declared.version.Version.{Version}
use Rattle.scenario_text.specs.declared.version.Version.TheVariants.{First, Second}

abbrev pub row_of : Keyword → Row
row_of key.Mode = row (codes "mode") 1 (Choice choices.Mode ∷ [])
row_of key.FirstId = row (codes "first-id") 1 (Number 0 255 ∷ [])
row_of key.MaxRetrans = row (codes "max-retrans") 1 (Number 0 10 ∷ [])
row_of key.PeerName = row (codes "peer-name") 1 (Name ∷ [])
row_of key.PeerServer = row (codes "peer-server") 1 (Name ∷ [])
row_of key.PeerMethods = row (codes "peer-methods") 1 (KindOrNone ∷ OtherKind 1 ∷ [])
row_of key.PeerSuites = row (codes "peer-suites") 1 (Suite ∷ OtherSuite 1 ∷ [])
row_of key.PeerPsk = row (codes "peer-psk") 2 (Kind ∷ Key 1 ∷ [])
row_of key.PeerNonce = row (codes "peer-nonce") 1 (Hex 32 32 ∷ [])
row_of key.ServerName = row (codes "server-name") 1 (Name ∷ [])
row_of key.ServerMethods = row (codes "server-methods") 1 (KindOrNone ∷ OtherKind 1 ∷ [])
row_of key.ServerSuites = row (codes "server-suites") 1 (Suite ∷ OtherSuite 1 ∷ [])
row_of key.ServerNonce = row (codes "server-nonce") 1 (Hex 32 32 ∷ [])
row_of key.User = row (codes "user") 4 (Name ∷ Kind ∷ Key 2 ∷ Choice choices.Access ∷ [])
row_of key.Events = row (codes "events") 0 []
row_of key.Deliver = row (codes "deliver") 1 (Number 1 1000000 ∷ [])
row_of key.Alter = row (codes "alter") 3 (Number 1 1000000 ∷ Number 0 1499 ∷ Number 1 255 ∷ [])
row_of key.Cut = row (codes "cut") 2 (Number 1 1000000 ∷ Number 0 max_packet ∷ [])
row_of key.Inject = row (codes "inject") 2 (Choice choices.Port ∷ Hex 0 2000 ∷ [])
row_of key.Timeout = row (codes "timeout") 1 (Choice choices.Timer ∷ [])
row_of key.AaaTimeout = row (codes "aaa-timeout") 0 []
row_of key.AaaNoReq = row (codes "aaa-noreq") 0 []
row_of key.Idle = row (codes "idle") 0 []
row_of key.AltAccept = row (codes "alt-accept") 0 []
row_of key.AltReject = row (codes "alt-reject") 0 []
row_of key.End = row (codes "end") 0 []
row_of key.PeerExpanded = row (codes "peer-expanded") 1 (Choice choices.YesNo ∷ [])
row_of key.ServerExpanded = row (codes "server-expanded") 1 (Choice choices.YesNo ∷ [])
row_of key.Restart = row (codes "restart") 1 (Choice choices.Party ∷ [])

-- the keywords of both versions
abbrev pub keywords : List Keyword
keywords =
    key.Deliver ∷ key.Alter ∷ key.Cut ∷ key.Inject ∷ key.Timeout ∷ key.AaaTimeout ∷ key.AaaNoReq
    ∷ key.Idle ∷ key.AltAccept ∷ key.AltReject ∷ key.End
    ∷ key.Mode ∷ key.FirstId ∷ key.MaxRetrans ∷ key.PeerName ∷ key.PeerServer ∷ key.PeerMethods
    ∷ key.PeerSuites ∷ key.PeerPsk
    ∷ key.PeerNonce ∷ key.ServerName ∷ key.ServerMethods ∷ key.ServerSuites ∷ key.ServerNonce
    ∷ key.User ∷ key.Events ∷ []

-- those that the second version has besides
abbrev pub later_keywords : List Keyword
later_keywords = key.PeerExpanded ∷ key.ServerExpanded ∷ key.Restart ∷ []

abbrev pub keywords_in : Version → List Keyword
keywords_in First = keywords
keywords_in Second = keywords ++ later_keywords
