-- P1 to P15 of document 01 and five cards more, of the definitions: one claim over the table for each operation, by computation. Assumes nothing.
use mathlib.Core.Path.{◌≡◌, refl}
use mathlib.Core.List.{map}
use lib.ListN.{length}
use Rattle.wire.specs.Numbers.{le, num, same_bytes}
use Rattle.records.specs.Record.{deep, encode, parse, nth, tree, set_nth, ◌▸▸◌, count, skip, first, FoldLeft, map_all}
use Rattle.records.specs.Kinds.{row_of, content_at}
use Rattle.records.specs.Reading.{read, reading}
use Rattle.rast.specs.Path.{same_path}
use Rattle.rast.specs.Operation.{upstream, straight}
use Rattle.rast.specs.Mod.{Mod-as-Fold}
use Rattle.rast.specs.Fold.{Fold}
use Rattle.rast.specs.Replace.{Replace}
use Rattle.rast.specs.Visitor.{VisitType, VisitTypeParams, VisitFields, VisitFn, VisitMember, VisitBody, VisitImplMapping, VisitUse, VisitTopFn, VisitTraitDecl}
use Rattle.rast.specs.Visitor.{VisitStructMapping, VisitModMapping, VisitMod}
use Rattle.rast.specs.Replacer.{ReplaceType, ReplaceExpr, ReplaceFields, ReplaceTypeParams, ReplaceFn, ReplaceImplMember, ReplaceBody, ReplaceUse, ReplaceTopFn}
use Rattle.rast.specs.Replacer.{ReplaceTrait, ReplaceImplDecl, ReplaceEnumCase, ReplaceEnum, ReplaceConst, ReplaceTypeDecl, ReplaceStruct, ReplaceModDecl}
use Rattle.rast.specs.Replacer.{ReplaceMod}
use Rattle.rast.specs.Final.{is_among, final_path}
use Rattle.factor_paths.specs.Mapping.{get, set, ◌among◌, Add, ToFinalReplacement, ToUseStatements, pairs}
use Rattle.factor_paths.specs.PathsVisitor.{VisitTypeSingle, VisitExprSingle, VisitTraitName, VisitModDeclSingle}
use Rattle.factor_paths.specs.Apply.{replaces, ReplaceTypeSingle, ReplaceExprSingle, PathSimplifier, mappings, paths_to_remove, imports, apply_prefix, apply}
use Rattle.outcome.specs.FullTable.{first_in, full_table}
use Rattle.outcome.specs.Outcome.{admitted, shorten}
use Rattle.proved_cards.specs.Cards.{proved_cards, seen, stated}

pub proved-cards : (map (seen upstream) proved_cards ≡ map (λ p. stated p.room p.upstream) proved_cards)
    × (map (seen straight) proved_cards ≡ map (λ p. stated p.room p.straight) proved_cards)
    × (map (λ p. length p.card) proved_cards ≡ map (λ p. p.long) proved_cards)
unfolding proved_cards le num same_bytes deep encode parse nth tree set_nth ◌▸▸◌ count skip first FoldLeft map_all row_of content_at read reading same_path Mod-as-Fold
    Fold Replace VisitType VisitTypeParams VisitFields VisitFn VisitMember VisitBody VisitImplMapping VisitUse VisitTopFn VisitTraitDecl VisitStructMapping
    VisitModMapping VisitMod ReplaceType ReplaceExpr ReplaceFields ReplaceTypeParams ReplaceFn ReplaceImplMember ReplaceBody ReplaceUse ReplaceTopFn
    ReplaceTrait ReplaceImplDecl ReplaceEnumCase ReplaceEnum ReplaceConst ReplaceTypeDecl ReplaceStruct ReplaceModDecl ReplaceMod get set is_among final_path Add
    ToFinalReplacement ToUseStatements pairs VisitTypeSingle VisitExprSingle VisitTraitName VisitModDeclSingle replaces ReplaceTypeSingle ReplaceExprSingle
    PathSimplifier mappings paths_to_remove imports apply_prefix apply first_in full_table admitted shorten
proved-cards = (refl, refl, refl)
