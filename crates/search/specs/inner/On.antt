-- What the files beside this one say of lists, said of a `Network`.
use Rattle.std.specs.Prelude.{List, ℕ, ◌+◌, ◌-◌, ◌*◌, ◌≤◌, ◌<◌, min, max, ℤ, length}
use Rattle.taxa.specs.Sets.{sizes, low, multiplicity_in}
use Rattle.search.specs.Workspace as workspace
use Rattle.search.specs.Workspace.{outs, inns}
use Rattle.search.specs.Search.{nth}
use Rattle.search.specs.declared.networks.Network.{Network}
use Rattle.search.specs.inner.Places as places-in
use Rattle.search.specs.inner.Network as network
use Rattle.search.specs.inner.Reaching as reaching
use Rattle.search.specs.inner.Flows as flows
use Rattle.search.specs.inner.Trying as trying

-- How many places its columns have in the workspace.
abbrev pub places : Network → ℕ
places net = sizes net.m (nth net.joined.now)

-- The workspace has them all.
abbrev pub Room : Network → List ℤ → Type 0
Room net ws = places net ≤ length ws

-- Only they may have changed.
abbrev pub Kept : Network → List ℤ → List ℤ → Type 0
Kept net ws ws' = workspace.Kept (places net) ws ws'

-- The net flows of the workspace balance and keep the limits; U counts them.
abbrev pub Ready : Network → List ℤ → List ℕ → Type 0
Ready net ws U = network.Ready net.weights.now net.planes.now net.joined.now net.limits.now net.offsets.now net.n net.m ws U

-- What column c joins, and where its places start.
abbrev pub IsColumn : Network → ℕ → ℕ → ℕ → Type 0
IsColumn net c joined offset = places-in.IsColumn (nth net.joined.now) c joined offset × (offset < 65536)

-- What taxon i finds at column c.
abbrev pub IsGate : Network → List ℤ → List ℕ → ℕ → ℕ → ℕ → ℕ → ℕ → Type 0
IsGate net ws U c i weight sends free =
    reaching.IsGate net.weights.now net.planes.now net.limits.now U c i (outs ws (nth net.joined.now) c i) (inns ws (nth net.joined.now) c i) weight sends free

-- What a hop to taxon j carries from one that finds that.
abbrev pub offered : Network → List ℤ → ℕ → ℕ → ℕ → ℕ → ℕ → ℕ
offered net ws c j weight sends free =
    min (min sends (weight * multiplicity_in net.planes.now j + outs ws (nth net.joined.now) c j - inns ws (nth net.joined.now) c j)) (max free (outs ws (nth net.joined.now) c j))

-- What a hop from i to j through column c carries.
abbrev pub carried : Network → List ℤ → ℕ → ℕ → ℕ → ℕ
carried net ws c i j = reaching.carried net.weights.now net.planes.now net.joined.now net.limits.now net.n ws c i j

-- A hop from i leads wherever one from a taxon of x leads.
abbrev pub Leads : Network → List ℤ → ℕ → ℕ → ℕ → Type 0
Leads net ws c x i = reaching.Leads net.weights.now net.planes.now net.joined.now net.limits.now net.n ws c x i

-- The tree of the taxa of a, from the sources X.
abbrev pub Rooted : Network → List ℤ → ℕ → ℕ → List ℕ → Type 0
Rooted net ws X a Y = reaching.Rooted net.weights.now net.planes.now net.joined.now net.limits.now net.n net.m ws X a Y

-- The tree after the hops of i through column c to all taxa but those of l.
abbrev pub Passed : Network → List ℤ → ℕ → ℕ → ℕ → List ℕ → ℕ → ℕ → ℕ → ℕ → Type 0
Passed net ws X a a' Y i c t l = reaching.Passed net.weights.now net.planes.now net.joined.now net.limits.now net.n net.m ws X a a' Y i c t l

-- The tree after the hops of the taxa of a through column c.
abbrev pub Crossed : Network → List ℤ → ℕ → ℕ → ℕ → List ℕ → ℕ → Type 0
Crossed net ws X a a' Y c = reaching.Crossed net.weights.now net.planes.now net.joined.now net.limits.now net.n net.m ws X a a' Y c

-- The tree after a sweep from column `first` on.
abbrev pub Swept : Network → List ℤ → ℕ → ℕ → ℕ → List ℕ → ℕ → ℕ → Type 0
Swept net ws X a a' Y goal first = reaching.Swept net.weights.now net.planes.now net.joined.now net.limits.now net.n net.m ws X a a' Y goal first

-- What reaching gives.
abbrev pub Found : Network → List ℤ → ℕ → ℕ → List ℕ → ℕ → Type 0
Found net ws X a Y goal = reaching.Found net.weights.now net.planes.now net.joined.now net.limits.now net.n net.m ws X a Y goal

-- A flow of k units from the taxa of X to t stands in the workspace.
abbrev pub Flowing : Network → List ℤ → List ℕ → ℕ → ℕ → ℕ → Type 0
Flowing net ws U X t k = flows.Flowing net.weights.now net.planes.now net.joined.now net.limits.now net.offsets.now net.n net.m ws U X t k

-- A is the taxa that hops reach from those of X past the flow.
abbrev pub Side : Network → List ℤ → ℕ → ℕ → Type 0
Side net ws X A = flows.Side net.weights.now net.planes.now net.joined.now net.limits.now net.n net.m ws X A

-- A flow, and the taxa reached.
abbrev pub Stage : Network → List ℤ → List ℕ → ℕ → ℕ → ℕ → ℕ → Type 0
Stage net ws U X t k A = flows.Stage net.weights.now net.planes.now net.joined.now net.limits.now net.offsets.now net.n net.m ws U X t k A

-- A path was pushed if t was reached.
abbrev pub Advanced : Network → List ℤ → List ℕ → ℕ → ℕ → ℕ → ℕ → ℕ → Type 0
Advanced net ws U X t k k' A = flows.Advanced net.weights.now net.planes.now net.joined.now net.limits.now net.offsets.now net.n net.m ws U X t k k' A

-- A largest flow, or one that is no smaller than the bound.
abbrev pub Largest : Network → List ℤ → ℕ → ℕ → ℕ → ℕ → ℕ → Type 0
Largest net ws X t bound k A = flows.Largest net.weights.now net.planes.now net.joined.now net.limits.now net.n net.m ws X t bound k A

-- What ties each taxon of S to the lower ones stands behind the limits.
abbrev pub Ties : Network → ℕ → Type 0
Ties net S = trying.Ties net.weights.now net.joined.now net.m S net.limits.now

-- With that, B holds what the columns weigh that join each taxon of S.
abbrev pub Weighed : Network → ℕ → List ℕ → Type 0
Weighed net S B = trying.Weighed net.weights.now net.joined.now net.m S net.limits.now B

-- To part some taxon of S alone costs less than k.
abbrev pub Loose : Network → ℕ → List ℕ → ℕ → Type 0
Loose net S B k = trying.Loose net.planes.now net.limits.now B S k

-- The taxa of S below u have been tried, against its lowest.
abbrev pub Trying : Network → ℕ → ℕ → ℕ → ℕ → ℕ → Type 0
Trying net S bound u k b = trying.Trying net.weights.now net.planes.now net.joined.now net.limits.now net.n net.m S (low net.n S) bound u k b

-- All have, and b is parted for the least.
abbrev pub Tried : Network → ℕ → ℕ → ℕ → Type 0
Tried net S k b = trying.Tried net.weights.now net.planes.now net.joined.now net.limits.now net.n net.m S (low net.n S) net.n k b

-- Cost k, side A and t divide the group S.
abbrev pub NetworkDivided : Network → ℕ → List ℤ → ℕ → ℕ → ℕ → Type 0
NetworkDivided net S ws k t A = trying.NetworkDivided net.weights.now net.planes.now net.joined.now net.limits.now net.n net.m S ws k t A
