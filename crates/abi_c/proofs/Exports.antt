-- Each export has the contract of the function of its name in `abi`: what it asks of a caller (`Pre`) and what it has to show (`Post`) are the
-- same. So what is proved of those, demand 3 among it (`abi_ledger`), is proved of the exports. Assumes nothing.
use Rattle.std.proofs.Common.{◌≡◌, refl}
use Rattle.abi.proofs.codwalet_version.Reads as version-of-abi
use Rattle.abi_c.proofs.codwalet_version.Reads as version
use Rattle.abi.proofs.codwalet_empty.Reads as empty-of-abi
use Rattle.abi_c.proofs.codwalet_empty.Reads as empty
use Rattle.abi.proofs.codwalet_grant.Reads as grant-of-abi
use Rattle.abi_c.proofs.codwalet_grant.Reads as grant
use Rattle.abi.proofs.codwalet_grant_width.Reads as grant-width-of-abi
use Rattle.abi_c.proofs.codwalet_grant_width.Reads as grant-width
use Rattle.abi.proofs.codwalet_cancel.Reads as cancel-of-abi
use Rattle.abi_c.proofs.codwalet_cancel.Reads as cancel
use Rattle.abi.proofs.codwalet_check_map.Reads as check-map-of-abi
use Rattle.abi_c.proofs.codwalet_check_map.Reads as check-map
use Rattle.abi.proofs.codwalet_look_up.Reads as look-up-of-abi
use Rattle.abi_c.proofs.codwalet_look_up.Reads as look-up
use Rattle.abi.proofs.codwalet_coverage.Reads as coverage-of-abi
use Rattle.abi_c.proofs.codwalet_coverage.Reads as coverage
use Rattle.abi.proofs.codwalet_blocks.Reads as blocks-of-abi
use Rattle.abi_c.proofs.codwalet_blocks.Reads as blocks
use Rattle.abi.proofs.codwalet_propose.Reads as propose-of-abi
use Rattle.abi_c.proofs.codwalet_propose.Reads as propose
use Rattle.abi.proofs.codwalet_footprint.Reads as footprint-of-abi
use Rattle.abi_c.proofs.codwalet_footprint.Reads as footprint

pub asks-version : version.Pre ≡ version-of-abi.Pre
asks-version = refl

pub ensures-version : version.Post ≡ version-of-abi.Post
ensures-version = refl

pub asks-empty : empty.Pre ≡ empty-of-abi.Pre
asks-empty = refl

pub ensures-empty : empty.Post ≡ empty-of-abi.Post
ensures-empty = refl

pub asks-grant : grant.Pre ≡ grant-of-abi.Pre
asks-grant = refl

pub ensures-grant : grant.Post ≡ grant-of-abi.Post
ensures-grant = refl

pub asks-grant-width : grant-width.Pre ≡ grant-width-of-abi.Pre
asks-grant-width = refl

pub ensures-grant-width : grant-width.Post ≡ grant-width-of-abi.Post
ensures-grant-width = refl

pub asks-cancel : cancel.Pre ≡ cancel-of-abi.Pre
asks-cancel = refl

pub ensures-cancel : cancel.Post ≡ cancel-of-abi.Post
ensures-cancel = refl

pub asks-check-map : check-map.Pre ≡ check-map-of-abi.Pre
asks-check-map = refl

pub ensures-check-map : check-map.Post ≡ check-map-of-abi.Post
ensures-check-map = refl

pub asks-look-up : look-up.Pre ≡ look-up-of-abi.Pre
asks-look-up = refl

pub ensures-look-up : look-up.Post ≡ look-up-of-abi.Post
ensures-look-up = refl

pub asks-coverage : coverage.Pre ≡ coverage-of-abi.Pre
asks-coverage = refl

pub ensures-coverage : coverage.Post ≡ coverage-of-abi.Post
ensures-coverage = refl

pub asks-blocks : blocks.Pre ≡ blocks-of-abi.Pre
asks-blocks = refl

pub ensures-blocks : blocks.Post ≡ blocks-of-abi.Post
ensures-blocks = refl

pub asks-propose : propose.Pre ≡ propose-of-abi.Pre
asks-propose = refl

pub ensures-propose : propose.Post ≡ propose-of-abi.Post
ensures-propose = refl

pub asks-footprint : footprint.Pre ≡ footprint-of-abi.Pre
asks-footprint = refl

pub ensures-footprint : footprint.Post ≡ footprint-of-abi.Post
ensures-footprint = refl
